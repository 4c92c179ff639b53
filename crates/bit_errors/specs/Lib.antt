pub mod Errors
pub mod Parts
