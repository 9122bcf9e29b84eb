pub mod Loops
pub mod Repair
