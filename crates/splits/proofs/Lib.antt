-- The mathematics of the tables: trees, their order and number, and the first least; then what the code keeps while it runs.
pub mod LowParts
pub mod FirstLeast
pub mod Membership
pub mod StoredClusters
pub mod Recurrence
pub mod FallingParts
pub mod Enumeration
pub mod OddProducts
pub mod TreeCounts
pub mod OverAllowed
pub mod LeastTrees
pub mod Ties
pub mod TieBound
pub mod SplitChoice
pub mod TieWalk
pub mod DrawnBinary
pub mod RecordsOfTrees
