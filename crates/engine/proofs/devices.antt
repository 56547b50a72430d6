pub mod Attached
pub mod Detached
pub mod Bits
