mod Digits
mod Laws
pub mod Determined
