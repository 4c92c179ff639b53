mod Stored
pub mod Twelve
