pub mod Reached
pub mod Mapped
pub mod Since
pub mod Strict
pub mod Released
