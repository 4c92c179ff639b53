pub mod Summary
pub mod Record
pub mod Shown
pub mod Samples
