pub mod Calls
pub mod Installation
pub mod Startup
pub mod Commands
pub mod History
pub mod Reasons
pub mod Ledger
