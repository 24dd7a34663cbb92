pub mod Lexed
pub mod Bridge
mod ByteTable
pub mod Cutting
pub mod Gaps
pub mod HexDigits
pub mod Lexing
mod NumberedRegisters
pub mod Numerals
mod OneRegister
mod Plain
pub mod Readings
pub mod Slicing
