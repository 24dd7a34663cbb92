pub mod Works
pub mod Codes
pub mod Outcomes
pub mod Progress
pub mod Execution
pub mod Invariant
