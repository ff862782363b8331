pub mod Kinds
pub mod Malformed
pub mod Lines
pub mod Letters
pub mod Printed
pub mod Stream
pub mod Step
pub mod WithStartups
