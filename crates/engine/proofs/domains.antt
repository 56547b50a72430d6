pub mod Trees
pub mod OneChanged
pub mod Found
pub mod Made
pub mod Closed
pub mod Dropped
pub mod Pieces
