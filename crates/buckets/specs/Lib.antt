pub mod Buckets
pub mod Signed
