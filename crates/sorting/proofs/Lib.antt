pub mod Insertion
pub mod Narrowing
pub mod OneOrder
