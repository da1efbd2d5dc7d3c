-- what a reader must believe: definitions of operations, and claims
pub mod Pairs
pub mod Execute
pub mod State
pub mod Actions
pub mod Advance
pub mod Step
pub mod Steps
pub mod Run
pub mod Reading
pub mod Operands
pub mod Refusals
pub mod Laws
pub mod PairUse
pub mod OriginTold
pub mod WriteOnly
pub mod OnePage
pub mod UnderWindow
-- for the contracts of functions inside; no claim uses them
pub mod Fetch
