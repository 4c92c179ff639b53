pub mod Percentiles
pub mod Fours
