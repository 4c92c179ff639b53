pub mod Words
pub mod Grown
pub mod Walk
