pub mod Pool
pub mod Answer
pub mod Rows
pub mod Inner
