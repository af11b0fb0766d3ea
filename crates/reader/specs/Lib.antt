pub mod Promise
pub mod WidePromise
pub mod Accepted
pub mod Work
