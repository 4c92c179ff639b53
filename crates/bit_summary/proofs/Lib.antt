mod Steps
pub mod Shows
pub mod Determined
