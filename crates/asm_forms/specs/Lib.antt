pub mod Completers
pub mod Items
pub mod Rows
pub mod Naming
pub mod Spelled
