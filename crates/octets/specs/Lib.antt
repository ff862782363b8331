pub mod Choice
pub mod Tests
pub mod Bytes
pub mod Words
pub mod Buffers
