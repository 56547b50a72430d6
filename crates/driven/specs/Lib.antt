pub mod Walks
pub mod Effects
pub mod Laws
pub mod Telling
pub mod Driven
pub mod UpTo
