pub mod Frame
pub mod Checks
