pub mod Numbers
pub mod Reached
