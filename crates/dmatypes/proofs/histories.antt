pub mod Entered
pub mod Maps
