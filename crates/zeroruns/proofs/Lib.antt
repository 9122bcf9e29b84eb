pub mod Scanning
pub mod WholeStream
pub mod Zeros
