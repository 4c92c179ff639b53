pub mod Refusals
pub mod States
pub mod Operations
pub mod Answers
pub mod Parts
