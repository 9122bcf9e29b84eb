pub mod Search
pub mod Figure
pub mod Unique
pub mod Sync
pub mod Stands
