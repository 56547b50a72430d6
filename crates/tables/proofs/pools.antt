pub mod FreeList
pub mod Patched
pub mod GivenBack
pub mod Fresh
pub mod ByWidth
pub mod Kept
