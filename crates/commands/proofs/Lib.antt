pub mod Bodies
pub mod Signatures
