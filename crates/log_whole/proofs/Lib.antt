pub mod Laws
pub mod First
pub mod Back
pub mod Accepted
pub mod Whole
pub mod Determined
pub mod Numbers
