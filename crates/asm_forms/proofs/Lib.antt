pub mod ListTests
pub mod Clear
pub mod Fits
mod Letters
mod NameEnds
mod RowIndexes
mod Pushed
pub mod ReadChoice
pub mod RowBack
pub mod RowFacts
pub mod RowSpelled
mod Somes
