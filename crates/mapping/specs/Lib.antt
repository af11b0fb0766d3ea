pub mod Mapping
pub mod Groups
pub mod Grammar
pub mod Promise
pub mod Work
