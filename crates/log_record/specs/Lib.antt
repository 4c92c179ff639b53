pub mod Records
pub mod Groups
