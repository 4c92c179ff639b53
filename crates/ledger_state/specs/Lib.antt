pub mod State
pub mod Refusal
pub mod BurstWait
