pub mod Quality
pub mod Words
pub mod Monitor
pub mod Host
pub mod Plainly
pub mod Numbers
