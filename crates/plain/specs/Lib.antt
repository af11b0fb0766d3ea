pub mod Numbering
pub mod Work
pub mod Promise
