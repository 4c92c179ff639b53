pub mod Packing
pub mod Searches
pub mod Steps
pub mod Holders
pub mod Tables
pub mod Accepts
pub mod Fresh
pub mod Meaning
