pub mod Matching
pub mod Related
pub mod Relations
