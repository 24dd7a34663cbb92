-- Proofs that others cite.
pub mod Lists
pub mod Locating
pub mod Targeting
mod Likeness
mod Spreading
mod Entering
pub mod Leading
pub mod Neighbours
pub mod Stopping
pub mod SlotRules
mod Runs
pub mod Quiet
mod Putting
pub mod Fitting
pub mod Programs
mod Making
