pub mod Rank
pub mod Counting
pub mod Samples
pub mod Searches
