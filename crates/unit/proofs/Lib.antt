pub mod caches
pub mod walks
