pub mod Cascades
pub mod Entries
pub mod Contexts
pub mod Descriptors
pub mod Ports
