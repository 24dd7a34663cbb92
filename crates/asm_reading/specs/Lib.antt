pub mod Lines
pub mod SlotReading
pub mod FaultOrder
pub mod OneAnswer
pub mod SomeAnswer
