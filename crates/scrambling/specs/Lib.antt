pub mod Scrambling
