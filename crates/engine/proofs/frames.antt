pub mod Owners
pub mod Held
