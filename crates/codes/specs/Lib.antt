pub mod Word
pub mod Parity
pub mod Nearest
pub mod Light
pub mod Erasures
pub mod Inner
