pub mod MaskedWrites
pub mod Names
pub mod Frames
pub mod Turns
