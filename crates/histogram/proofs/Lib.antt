pub mod Sums
pub mod Blocks
