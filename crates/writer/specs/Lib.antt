pub mod Promise
pub mod Work
