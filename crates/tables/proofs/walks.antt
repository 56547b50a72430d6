pub mod Onward
pub mod Near
pub mod Agreeing
pub mod Words
pub mod Steps
pub mod Levels
pub mod Related
pub mod Sizes
