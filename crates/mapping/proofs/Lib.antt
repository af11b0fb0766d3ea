-- The mathematics behind the proofs of this crate, and the laws that other crates cite.
pub mod Marks
pub mod Naming
pub mod IndividualSets
pub mod FaultKinds
pub mod LabelSteps
pub mod Outcomes
pub mod Walks
pub mod LabelReads
pub mod LineReads
pub mod MappingReads
pub mod Judging
pub mod LabelRules
pub mod GrammarComplete
pub mod GrammarSound
pub mod Accepts
pub mod StandMeaning
pub mod Examples
