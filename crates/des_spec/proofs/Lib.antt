pub mod Lists
pub mod Tests
pub mod Lengths
pub mod Elements
pub mod Ranges
pub mod Binary
pub mod Permutations
pub mod ByRows
pub mod Sums
pub mod Walk
pub mod Texts
pub mod Inverse
pub mod Parity
pub mod Padding
pub mod Signature
mod Vectors
