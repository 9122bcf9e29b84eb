pub mod Codes
pub mod Frames
