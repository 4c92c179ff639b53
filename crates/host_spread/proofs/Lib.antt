mod Answers
mod Short
pub mod Determined
pub mod Back
