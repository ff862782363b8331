pub mod Table
pub mod Shapes
pub mod Order
pub mod Refusing
