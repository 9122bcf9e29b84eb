pub mod Scrambled
pub mod Register
