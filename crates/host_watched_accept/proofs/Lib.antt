pub mod Determined
pub mod Ended
