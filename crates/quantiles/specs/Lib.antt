pub mod State
pub mod Record
pub mod Between
