pub mod lists
pub mod worlds
pub mod reach
