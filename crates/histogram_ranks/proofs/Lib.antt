pub mod Blocks
pub mod Values
