pub mod Copied
pub mod Over
pub mod Kept
pub mod Said
pub mod Theorem
pub mod Examples
