pub mod Serving
pub mod Determined
