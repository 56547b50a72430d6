pub mod sums
pub mod pools
pub mod walks
pub mod maps
pub mod counts
pub mod unmaps
pub mod spelled
pub mod trails
