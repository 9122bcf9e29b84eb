pub mod Streams
pub mod Frames
pub mod Peak
pub mod Inner
