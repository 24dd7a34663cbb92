pub mod Slots
pub mod Spelling
pub mod SlotFaults
pub mod Laws
