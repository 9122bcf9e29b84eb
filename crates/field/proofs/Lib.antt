pub mod Sums
pub mod Field
pub mod Powers
pub mod Inverse
pub mod Tables
