pub mod Length
pub mod Place
pub mod Facts
pub mod SignedFacts
pub mod Examples
