pub mod Edc
pub mod Polynomial
pub mod Inner
