pub mod Leading
pub mod Lengths
pub mod Stored
