pub mod Draws
pub mod Trials
