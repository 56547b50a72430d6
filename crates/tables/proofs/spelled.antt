pub mod Stays
pub mod UnderEntry
pub mod Runs
