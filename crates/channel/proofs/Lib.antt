pub mod Laying
pub mod Results
pub mod Spelled
