pub mod Rows
pub mod OneByte
pub mod Apart
pub mod Reach
