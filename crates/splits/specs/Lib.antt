pub mod BinaryTrees
pub mod Order
pub mod WellFormed
pub mod Least
pub mod Ties
pub mod Best
pub mod Work
pub mod Falling
