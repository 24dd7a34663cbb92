pub mod Contents
pub mod Changes
pub mod Invariant
