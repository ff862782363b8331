pub mod Frames
pub mod Broken
pub mod Formats
pub mod Stream
pub mod Step
