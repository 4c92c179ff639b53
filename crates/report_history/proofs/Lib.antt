pub mod Theorem
pub mod Bytes
pub mod Whole
