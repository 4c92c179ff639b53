pub mod Wire
pub mod Make
pub mod RoundTrip
pub mod Error
pub mod Examples
