pub mod Passes
pub mod Follows
pub mod Loops
