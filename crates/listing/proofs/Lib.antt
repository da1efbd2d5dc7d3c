pub mod Calls
pub mod PageLaws
pub mod Fits
pub mod Cases
