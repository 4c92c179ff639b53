pub mod Row
pub mod Held
pub mod Rooms
pub mod Sound
