pub mod Words
pub mod Values
pub mod ActionWords
pub mod FrameParts
pub mod InRange
pub mod Memories
pub mod StateKept
