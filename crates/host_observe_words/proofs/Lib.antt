pub mod Parts
pub mod Stored
pub mod Matched
pub mod Steps
pub mod Determined
