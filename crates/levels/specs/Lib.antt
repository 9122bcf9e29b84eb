pub mod Level
pub mod Inner
