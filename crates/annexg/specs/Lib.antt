pub mod Tables
pub mod Read
pub mod ZeroRuns
pub mod Sync
pub mod Inner
