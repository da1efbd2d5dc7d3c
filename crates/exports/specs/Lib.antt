pub mod Every
pub mod Clamp
pub mod States
pub mod Answers
pub mod Fields
pub mod Lent
pub mod Laws
pub mod OnePage
