pub mod Count
pub mod Stand
pub mod Lineages
pub mod Marks
pub mod Work
pub mod Subsets
