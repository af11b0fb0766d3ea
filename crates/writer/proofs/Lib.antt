pub mod RosterNames
pub mod WholeText
pub mod Outcomes
pub mod Derives
pub mod RoundTrip
