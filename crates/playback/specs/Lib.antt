-- what a reader must believe: definitions of operations, and claims
pub mod Entries
pub mod Record
pub mod Play
pub mod Refusals
pub mod Versions
pub mod Keys
pub mod Safety
pub mod Cases
pub mod OnePage
pub mod NoTrace
pub mod UnderWindow
-- for the contracts of functions inside; no claim uses them
pub mod Row
