pub mod Steps
pub mod LongDivision
pub mod Remainders
pub mod Polynomial
