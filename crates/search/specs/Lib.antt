pub mod Promise
pub mod TiesPromise
pub mod Candidates
pub mod LeastAmong
pub mod Work
