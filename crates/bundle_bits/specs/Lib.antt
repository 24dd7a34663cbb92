pub mod Bits
pub mod Words
pub mod RawBundle
pub mod Laws
