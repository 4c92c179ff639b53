pub mod Fresh
pub mod Shows
pub mod Monitor
pub mod Link
