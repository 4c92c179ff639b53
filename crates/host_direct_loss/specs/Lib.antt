pub mod Left
pub mod Order
