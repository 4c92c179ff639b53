pub mod Ways
mod Spans
pub mod Determined
pub mod Kept
