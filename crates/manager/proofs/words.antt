pub mod Cleared
pub mod Rows
pub mod Entered
pub mod Filled
