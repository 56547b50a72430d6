pub mod Places
pub mod Membership
