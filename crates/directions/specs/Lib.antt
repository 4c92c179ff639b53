pub mod Direction
pub mod Directions
pub mod Tried
