-- What the proofs of several functions use.
pub mod Counting
pub mod Shifts
pub mod Leading
pub mod Stepping
pub mod Steps
pub mod Parting
pub mod Sorting
pub mod Samples
pub mod Counted
pub mod Results
