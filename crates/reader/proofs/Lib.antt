pub mod Calls
pub mod Counts
pub mod Examples
