pub mod Known
pub mod Past
pub mod Newlines
pub mod Lines
pub mod Reading
