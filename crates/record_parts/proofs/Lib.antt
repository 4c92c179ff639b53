pub mod Signed
pub mod Back
pub mod Determined
