pub mod Writing
pub mod Work
