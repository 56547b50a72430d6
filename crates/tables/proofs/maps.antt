pub mod Mapped
pub mod AddedTable
pub mod Runs
pub mod Large
pub mod LargeExtents
pub mod Descending
pub mod Placed
pub mod TablesMade
