pub mod Offsets
pub mod Outcomes
pub mod Shown
pub mod Examples
