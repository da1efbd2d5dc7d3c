pub mod LineLaws
pub mod Decimal
