pub mod Ledger
pub mod Monitor
pub mod Whole
