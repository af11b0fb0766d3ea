pub mod Judged
pub mod Filling
pub mod FilledTo
pub mod Endings
pub mod Entries
