pub mod Link
pub mod Host
