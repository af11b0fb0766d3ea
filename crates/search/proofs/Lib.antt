-- The mathematics of the search: its trees and their records, and what the promises give; then what the code keeps while it runs.
pub mod BestTrees
pub mod AnyWeights
pub mod Accepted
pub mod Demand
pub mod HowMany
pub mod Lots
pub mod Unread
pub mod Dropped
pub mod EveryCluster
pub mod Finding
pub mod Tying
pub mod Ties
