pub mod Fronts
pub mod Members
pub mod Emptied
pub mod Rows
