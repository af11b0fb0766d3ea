pub mod Promise
pub mod Work
pub mod Passes
pub mod Without
