pub mod Answers
pub mod Levels
pub mod Output
pub mod PageFound
