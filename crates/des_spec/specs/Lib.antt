pub mod Bits
pub mod Tables
pub mod Des
pub mod Rows
pub mod Modes
pub mod Walk
