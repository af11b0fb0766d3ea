pub mod Bytes
pub mod Spelling
pub mod Labels
pub mod Writing
pub mod Base
pub mod Work
