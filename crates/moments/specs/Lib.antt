pub mod Moments
pub mod Laws
