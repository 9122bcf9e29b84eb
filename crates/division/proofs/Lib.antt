pub mod Unpacked
pub mod Step
pub mod Division
pub mod Words
