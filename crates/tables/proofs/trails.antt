pub mod Made
pub mod Through
pub mod Steps
pub mod Fills
pub mod Ends
