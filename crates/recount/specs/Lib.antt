pub mod Figures
pub mod Recount
