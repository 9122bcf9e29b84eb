pub mod Copies
pub mod Words
pub mod Choices
pub mod Ended
pub mod Filling
