pub mod Firsts
pub mod OneFrame
pub mod OverSpans
pub mod Blocks
