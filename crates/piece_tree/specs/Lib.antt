pub mod Pieces
pub mod Top
pub mod Tree
pub mod Lending
pub mod Way
pub mod Search
pub mod Laid
pub mod Graft
