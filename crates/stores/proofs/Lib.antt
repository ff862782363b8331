pub mod Plans
pub mod Limits
pub mod Least
pub mod Sequence
pub mod Parts
pub mod Cut
pub mod Fields
