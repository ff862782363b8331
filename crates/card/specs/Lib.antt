pub mod Log
pub mod Keys
pub mod Card
pub mod Updates
pub mod Changes
pub mod Pin
pub mod Proper
pub mod Ranges
