mod Answers
pub mod Back
pub mod Determined
