pub mod ListedB
pub mod RowIndexesB
pub mod ListedF
pub mod RowIndexesF
pub mod PartsX
pub mod ListedX
pub mod RowIndexesX
