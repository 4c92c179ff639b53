pub mod Fits
pub mod Examples
pub mod Determined
