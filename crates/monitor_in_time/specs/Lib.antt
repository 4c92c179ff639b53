pub mod Calls
pub mod InTime
pub mod Core
