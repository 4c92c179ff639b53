pub mod Spread
pub mod Record
