pub mod Accept
pub mod Agreeing
pub mod Link
pub mod Observe
pub mod Sent
pub mod Shows
pub mod Watch
