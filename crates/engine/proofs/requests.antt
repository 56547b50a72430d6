pub mod Read
pub mod Allowed
pub mod Stepped
pub mod Detailed
