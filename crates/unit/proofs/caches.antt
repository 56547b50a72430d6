pub mod Remembered
pub mod Found
pub mod Members
pub mod Blocks
pub mod Kept
pub mod Known
pub mod Marks
pub mod Parts
