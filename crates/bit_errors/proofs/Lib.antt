mod Parts
mod Patterns
mod Words
pub mod Determined
