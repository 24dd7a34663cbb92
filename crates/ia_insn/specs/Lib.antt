pub mod Signed
pub mod Sizes
pub mod RegisterTexts
pub mod Displacements
pub mod Ranges
pub mod NewValues
