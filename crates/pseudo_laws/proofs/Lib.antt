pub mod PseudoOperations
