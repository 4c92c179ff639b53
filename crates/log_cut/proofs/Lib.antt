pub mod Kept
pub mod Fresh
pub mod Output
pub mod Cuts
pub mod Examples
