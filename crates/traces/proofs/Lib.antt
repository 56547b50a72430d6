pub mod Judging
pub mod Read
pub mod Told
