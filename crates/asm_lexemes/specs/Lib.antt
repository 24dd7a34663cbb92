pub mod Bytes
pub mod Lexemes
pub mod Numbers
pub mod Registers
pub mod Tokens
pub mod Slices
