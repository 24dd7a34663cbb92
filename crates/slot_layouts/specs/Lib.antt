pub mod Classes
pub mod Layouts
pub mod Filled
pub mod Laws
