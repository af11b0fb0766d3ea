pub mod Answers
pub mod Tokens
pub mod Values
pub mod Supports
pub mod Says
