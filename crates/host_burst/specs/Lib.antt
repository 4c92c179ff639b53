pub mod Burst
pub mod Entries
