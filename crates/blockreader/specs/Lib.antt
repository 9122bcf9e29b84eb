pub mod BlockReader
