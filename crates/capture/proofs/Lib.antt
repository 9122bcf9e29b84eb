pub mod Turns
pub mod Laying
pub mod Answers
