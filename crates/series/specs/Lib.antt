pub mod Series
pub mod Shown
pub mod Step
