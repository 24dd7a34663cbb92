pub mod Spreads
pub mod Laws
