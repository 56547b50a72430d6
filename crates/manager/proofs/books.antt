pub mod Entering
pub mod Epochs
pub mod Starting
pub mod Shares
