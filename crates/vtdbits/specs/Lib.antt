pub mod Numbers
pub mod Translation
pub mod Entry
pub mod Context
pub mod Descriptor
pub mod Port
