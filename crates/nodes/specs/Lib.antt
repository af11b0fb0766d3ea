pub mod Reading
pub mod Worth
pub mod Grammar
pub mod Letters
pub mod Deciding
pub mod Core
