pub mod Run
pub mod Reported
pub mod Traced
