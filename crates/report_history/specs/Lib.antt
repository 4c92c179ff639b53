pub mod Figures
pub mod Bytes
