mod Examples
mod Fitting
pub mod Closed
pub mod TrialPrograms
