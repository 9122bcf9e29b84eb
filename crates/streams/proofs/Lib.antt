pub mod Laid
pub mod Frames
pub mod Range
pub mod Shown
pub mod Closing
pub mod Peak
