pub mod Parts
pub mod Added
pub mod Over
pub mod Filled
pub mod Shows
