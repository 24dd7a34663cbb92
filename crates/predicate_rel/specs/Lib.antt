pub mod Pairs
pub mod Rules
pub mod Rows
pub mod Edges
pub mod Truth
pub mod Steps
pub mod Changes
