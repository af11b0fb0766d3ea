pub mod Cases
pub mod Counts
pub mod EndWays
pub mod Found
pub mod DrawnEnds
pub mod Onward
