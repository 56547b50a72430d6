pub mod lists
pub mod texts
pub mod worlds
pub mod calls
pub mod histories
