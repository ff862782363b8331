pub mod Refusals
pub mod Parsing
pub mod Instructions
pub mod Parameters
pub mod Lengths
pub mod Early
