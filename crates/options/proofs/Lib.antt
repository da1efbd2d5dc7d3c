pub mod WordLaws
pub mod NumberLaws
pub mod WiredLaws
pub mod ImageLaws
pub mod NeverAssumed
pub mod NeverGuessed
