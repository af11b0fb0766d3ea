-- The mathematics of the code: tables changed by one at some sets; the unions of children, and the children found; whole gene trees; the transform; the end.
pub mod Changes
pub mod Joins
pub mod DownPass
pub mod RootedChanges
pub mod Grouping
pub mod UnrootedChanges
pub mod TreeChanges
pub mod Steps
pub mod Telling
pub mod Filled
