pub mod Ways
pub mod Tally
pub mod Between
pub mod Numbers
pub mod Determined
