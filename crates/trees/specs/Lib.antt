pub mod Lists
pub mod Tree
pub mod Records
pub mod Drawn
pub mod Valid
pub mod Decides
pub mod Thinned
pub mod Unrooted
