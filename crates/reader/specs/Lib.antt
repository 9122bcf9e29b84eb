pub mod Sector
pub mod Session
pub mod Closing
