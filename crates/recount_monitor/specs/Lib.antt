pub mod Fronts
pub mod Session
