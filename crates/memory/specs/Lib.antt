pub mod Layout
pub mod Structs
pub mod Reading
pub mod Changes
