pub mod Signs
pub mod Steps
pub mod Determined
