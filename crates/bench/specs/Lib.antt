pub mod Calls
pub mod Session
pub mod StackEffect
pub mod Balance
pub mod Cases
pub mod NoTrace
pub mod ServiceEnds
pub mod ServiceCases
