pub mod Steps
pub mod HalfWords
pub mod Trials
