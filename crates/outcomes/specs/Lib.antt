pub mod Outcome
pub mod Work
