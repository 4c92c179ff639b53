pub mod Fits
pub mod Stands
pub mod Follows
