pub mod Moves
pub mod Queue
pub mod Track
