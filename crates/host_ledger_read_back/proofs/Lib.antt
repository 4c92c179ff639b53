pub mod Accept
pub mod Fresh
pub mod Observe
pub mod Sent
pub mod Spelled
