pub mod Ranges
pub mod Blocks
