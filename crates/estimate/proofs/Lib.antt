pub mod Values
pub mod Determined
