mod Kept
pub mod Rooms
mod Spaced
