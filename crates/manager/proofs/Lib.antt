pub mod Reporting
pub mod words
pub mod books
