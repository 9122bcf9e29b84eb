pub mod Block
pub mod Encode
pub mod Run
pub mod Inner
