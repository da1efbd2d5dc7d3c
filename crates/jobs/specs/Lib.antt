-- what a reader must believe: definitions of operations, and claims
pub mod CheckJob
pub mod Line
pub mod Answer
pub mod Addresses
pub mod Cases
