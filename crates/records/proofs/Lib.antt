pub mod Deciding
pub mod Pairs
