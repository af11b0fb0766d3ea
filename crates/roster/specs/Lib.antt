pub mod Roster
pub mod Table
pub mod Judged
pub mod Verdict
pub mod Letters
