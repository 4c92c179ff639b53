pub mod Windows
pub mod Quality
pub mod Observed
