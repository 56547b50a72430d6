pub mod Walked
pub mod Starts
pub mod Reading
pub mod Used
pub mod Lowest
