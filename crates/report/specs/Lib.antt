pub mod Input
pub mod Program
pub mod Promise
pub mod Forms
