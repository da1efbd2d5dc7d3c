pub mod CheckJob
pub mod Cases
pub mod AnswerLaws
pub mod Addresses
