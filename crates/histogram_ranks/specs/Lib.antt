pub mod Ranks
pub mod Blocks
