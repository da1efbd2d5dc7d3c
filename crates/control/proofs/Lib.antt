pub mod StaysWellFormed
pub mod Stopped
pub mod FirstTaken
