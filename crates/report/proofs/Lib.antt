-- The mathematics behind the proofs of this crate, and the laws that other crates cite.
pub mod Comparing
pub mod InputParts
pub mod Checks
pub mod Outcomes
