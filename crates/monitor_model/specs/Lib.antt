pub mod Plain
pub mod Playing
