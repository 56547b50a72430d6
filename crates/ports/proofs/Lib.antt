pub mod lists
pub mod histories
pub mod runs
pub mod steps
