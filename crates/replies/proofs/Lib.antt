pub mod Wraps
pub mod Tested
