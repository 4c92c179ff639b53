pub mod Offsets
pub mod Sound
