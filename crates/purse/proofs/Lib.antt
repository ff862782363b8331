pub mod Outcomes
pub mod Starting
pub mod Installing
pub mod Requests
