pub mod Asked
pub mod Judged
pub mod Expected
