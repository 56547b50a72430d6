pub mod UnderEntry
pub mod Destroyed
pub mod Ending
pub mod Unmapped
pub mod Cleared
pub mod CutTable
pub mod SplitLeaf
pub mod Ended
