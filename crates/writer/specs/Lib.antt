pub mod Records
pub mod Answers
pub mod Session
pub mod Inner
