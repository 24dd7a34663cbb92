pub mod Kept
pub mod KeptWrites
pub mod Registers
pub mod Views
pub mod Groups
pub mod Engine
pub mod Invariant
