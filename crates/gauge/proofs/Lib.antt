pub mod Steps
pub mod Sleeper
pub mod NeverStops
pub mod Search
pub mod Runs
pub mod Outcomes
pub mod Cases
pub mod OnePage
