pub mod Test
pub mod Fill
pub mod Sum
pub mod Count
pub mod Distance
pub mod Bytes
pub mod Front
