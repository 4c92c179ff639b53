pub mod Order
pub mod Sound
pub mod Observed
pub mod Refused
