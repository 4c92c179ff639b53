pub mod Followed
pub mod Bounds
pub mod Shown
