pub mod Lists
pub mod Digits
pub mod Counts
mod Table
pub mod Steps
pub mod Determined
