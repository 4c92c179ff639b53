pub mod Host
pub mod Monitor
pub mod Words
pub mod Reads
pub mod Numbers
