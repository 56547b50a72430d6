pub mod OnePage
pub mod ByExtents
pub mod ByEntries
