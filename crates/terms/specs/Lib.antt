pub mod Allowed
pub mod Answers
