pub mod Update
pub mod Modes
pub mod Stack
pub mod Transfers
pub mod Requests
pub mod WellFormed
