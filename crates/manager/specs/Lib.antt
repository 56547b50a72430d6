pub mod Called
pub mod Kept
pub mod Lending
pub mod Report
pub mod Words
