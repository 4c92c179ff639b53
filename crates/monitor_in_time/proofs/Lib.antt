pub mod Losses
pub mod Sound
pub mod InTime
pub mod Core
pub mod Exactly
pub mod Examples
