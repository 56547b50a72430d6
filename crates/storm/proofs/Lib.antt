pub mod Elements
pub mod Hits
pub mod Meeting
pub mod Storms
pub mod Writing
