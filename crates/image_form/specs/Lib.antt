pub mod Images
pub mod Parts
pub mod Faults
pub mod Laws
