pub mod Buckets
pub mod Meaning
pub mod Growth
pub mod Blocks
pub mod Percentile
pub mod Near
pub mod Shown
pub mod Served
