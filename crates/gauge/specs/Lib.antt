pub mod Sleep
pub mod Width
pub mod Outcomes
pub mod Cases
pub mod OnePage
