pub mod Words
pub mod Value
pub mod Texts
pub mod Work
