pub mod Packings
pub mod Packs
pub mod QuietCounts
pub mod Known
pub mod Caused
pub mod Packed
pub mod Placing
pub mod Laws
