pub mod Laws
pub mod Places
pub mod Rows
pub mod Answers
