pub mod LawfulWords
pub mod Worlds
pub mod Allowed
pub mod Staying
pub mod EmptyWords
