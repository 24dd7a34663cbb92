pub mod Chunk
pub mod Chunks
pub mod Bundled
pub mod Laws
