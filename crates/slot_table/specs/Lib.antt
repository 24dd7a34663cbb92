pub mod Slots
pub mod Invariant
