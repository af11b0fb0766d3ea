pub mod GeneTrees
pub mod Work
