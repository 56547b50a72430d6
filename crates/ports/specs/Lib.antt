pub mod Lawful
pub mod Cleared
pub mod Steps
pub mod Seen
pub mod Rule
pub mod Hits
