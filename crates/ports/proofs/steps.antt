pub mod Views
pub mod Loads
pub mod Stores
pub mod Seats
pub mod Told
