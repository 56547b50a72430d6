pub mod Quiet
pub mod Laws
