pub mod Windows
pub mod Waiting
pub mod Taken
pub mod Submitted
