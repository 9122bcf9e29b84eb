pub mod Lengths
pub mod Rows
pub mod Sectors
pub mod Inner
