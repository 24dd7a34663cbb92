pub mod Packings
pub mod PlainPackings
pub mod Units
