pub mod RoundTrip
pub mod Sizes
pub mod Reading
pub mod Places
pub mod Fields
pub mod WhoMay
pub mod Levels
