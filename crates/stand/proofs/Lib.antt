-- The mathematics behind the proofs of this crate, and the laws that other crates cite.
pub mod Opening
pub mod Parting
pub mod Replies
pub mod Finding
pub mod Outcomes
pub mod Accepting
pub mod Demand
pub mod SameWeights
pub mod OneIndividualEach
pub mod Counted
