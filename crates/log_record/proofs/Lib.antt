pub mod Laws
pub mod Answers
pub mod Back
pub mod Good
pub mod Determined
pub mod Told
