pub mod Served
pub mod Bounds
