pub mod Words
pub mod Counting
