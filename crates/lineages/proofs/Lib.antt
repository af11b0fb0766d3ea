pub mod Outcomes
pub mod Verdicts
pub mod FirstBad
pub mod WithEverySpecies
pub mod Told
pub mod Calls
