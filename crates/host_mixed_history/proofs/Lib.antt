pub mod Shows
pub mod Bursts
