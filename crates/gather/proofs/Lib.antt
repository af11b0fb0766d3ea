-- The mathematics behind the proofs of this crate, and the laws that other crates cite.
pub mod Kept
pub mod Gathering
pub mod GeneTrees
pub mod Beginnings
