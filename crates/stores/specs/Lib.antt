pub mod Stores
pub mod Writing
pub mod Limits
pub mod Fields
