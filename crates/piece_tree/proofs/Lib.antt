pub mod Names
pub mod shapes
