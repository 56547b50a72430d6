pub mod Reaching
pub mod OwnSteps
pub mod WholeRuns
