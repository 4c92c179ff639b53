pub mod Sums
pub mod Delays
pub mod Bounds
pub mod Summary
pub mod Samples
pub mod Shown
pub mod Examples
