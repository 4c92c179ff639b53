pub mod Hosted
pub mod Bursts
