pub mod Kinds
pub mod Courses
pub mod Options
