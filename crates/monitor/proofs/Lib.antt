pub mod Chosen
pub mod Served
pub mod Storing
pub mod Popping
pub mod Replying
