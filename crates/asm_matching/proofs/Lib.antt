mod PastTheEnd
pub mod NamedPredicates
