pub mod Mixed
pub mod Shows
