pub mod Telling
pub mod Allowed
pub mod TreeText
pub mod Searching
pub mod GeneTrees
pub mod Shifting
pub mod NeverNine
