pub mod Class
pub mod Whole
