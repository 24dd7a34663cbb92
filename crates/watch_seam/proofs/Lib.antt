mod Examples
pub mod Lines
pub mod Showing
pub mod Groups
