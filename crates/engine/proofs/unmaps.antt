pub mod Pages
pub mod DomainAfter
pub mod LazyRange
pub mod FullList
pub mod Steps
pub mod ByPlace
