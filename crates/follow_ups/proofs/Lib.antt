pub mod Delayed
