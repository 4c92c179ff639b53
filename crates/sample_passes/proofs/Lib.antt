-- What the proofs of several functions use.
pub mod Counting
pub mod Ends
pub mod DigitCounts
pub mod Blocks
pub mod Tallies
