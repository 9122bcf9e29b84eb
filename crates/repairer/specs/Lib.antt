pub mod Repair
pub mod Answer
pub mod Inner
