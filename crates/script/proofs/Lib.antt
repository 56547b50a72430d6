pub mod Entering
pub mod Going
pub mod Concluding
