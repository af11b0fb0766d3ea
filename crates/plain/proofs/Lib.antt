-- The trees by their numbers: the table, that all are visited, the low part of a number, and its children; then the best tree so far, the checks of the call, and what is known behind them.
pub mod TreeTable
pub mod Visited
pub mod Blocks
pub mod PartWalk
pub mod ForkNumbers
pub mod Keeping
pub mod Judging
pub mod Calling
