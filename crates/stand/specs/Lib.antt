pub mod Checks
pub mod InOrder
pub mod Promise
pub mod OneEach
pub mod Work
