-- The mathematics of what a search is given and answers.
pub mod Refusing
pub mod AllMarked
