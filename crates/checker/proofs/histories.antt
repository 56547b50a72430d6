pub mod Entered
pub mod Fronts
