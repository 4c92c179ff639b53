pub mod Direct
pub mod RoundTrips
pub mod FollowUps
pub mod Follows
