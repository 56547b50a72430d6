pub mod New
pub mod RecordsMade
pub mod Refused
pub mod OneDomain
