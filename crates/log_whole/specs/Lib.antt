pub mod Logs
pub mod Written
pub mod Meaning
