pub mod Ring
pub mod Pairs
