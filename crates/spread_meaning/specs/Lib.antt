pub mod Samples
pub mod Ways
pub mod Examples
