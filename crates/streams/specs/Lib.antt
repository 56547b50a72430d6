pub mod Streams
pub mod Bytes
pub mod Lines
