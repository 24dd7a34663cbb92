pub mod Named
pub mod ReservedZeros
pub mod EntryTests
pub mod NewFrames
pub mod PredicateWords
