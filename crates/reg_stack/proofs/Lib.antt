pub mod Held
pub mod Places
pub mod Resizing
pub mod Returning
pub mod Stays
pub mod Steps
pub mod Whole
mod Examples
