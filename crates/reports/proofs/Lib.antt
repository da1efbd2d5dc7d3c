pub mod FirstLine
pub mod PartsAddUp
