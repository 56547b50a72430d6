pub mod Mapped
pub mod Segments
