pub mod Members
pub mod Sets
pub mod Sizes
pub mod LowestSpecies
pub mod Parts
