-- what a reader must believe: definitions of operations, and claims
pub mod Reach
pub mod Least
pub mod Make
pub mod Outcomes
pub mod Cases
pub mod OnePage
-- for the contracts of functions inside; no claim uses them
pub mod Making
