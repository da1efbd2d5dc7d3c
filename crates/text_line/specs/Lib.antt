pub mod Digits
pub mod Line
-- for the type of a line; no contract uses it
pub mod Letters
