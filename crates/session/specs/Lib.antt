pub mod Transitions
pub mod Access
pub mod Codes
pub mod Packing
