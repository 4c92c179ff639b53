pub mod Values
pub mod Fours
pub mod Ways
pub mod Determined
pub mod Lies
pub mod Examples
