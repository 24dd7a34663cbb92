pub mod Families
pub mod Units
pub mod Slots
pub mod Spellings
pub mod Faults
pub mod Answers
