pub mod Halves
pub mod Inner
