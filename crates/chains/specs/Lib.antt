pub mod Rings
pub mod Links
pub mod Walk
pub mod Whole
pub mod Hash
