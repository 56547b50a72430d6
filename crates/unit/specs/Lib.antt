pub mod Row
pub mod Caches
pub mod Filters
pub mod Lists
pub mod Walking
pub mod Answers
pub mod Marks
