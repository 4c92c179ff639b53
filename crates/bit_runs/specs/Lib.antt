pub mod Bits
pub mod Tally
