pub mod Classes
pub mod Missing
