pub mod Quality
pub mod Bounds
pub mod Samples
