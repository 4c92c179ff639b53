pub mod Eras
pub mod Steps
