pub mod Early
pub mod Walking
