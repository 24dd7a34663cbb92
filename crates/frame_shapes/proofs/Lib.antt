pub mod Returns
mod Examples
pub mod FrameEnds
