pub mod Formatter
pub mod Session
pub mod Inner
