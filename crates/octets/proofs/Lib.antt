pub mod Copies
pub mod Halves
pub mod BitsAt
