pub mod Fields
pub mod Bytes
pub mod Parts
pub mod Words
