pub mod CodeSlots
pub mod SlotSteps
pub mod Groups
