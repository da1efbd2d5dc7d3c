-- what a reader must believe: definitions of operations, and claims
pub mod Displacement
pub mod ShortDisplacement
pub mod Map
pub mod Refusals
pub mod Rom
pub mod Table
pub mod Decode
pub mod Encode
pub mod Write
pub mod ControlFlow
pub mod Sources
pub mod Lengths
pub mod RoundTrip
pub mod Targets
pub mod Counts
pub mod Cases
pub mod DecodeRefusals
pub mod WriteEffects
-- for the contracts of functions inside; no claim uses them
pub mod FlowAt
pub mod Predecoded
