-- The mathematics of the tables: trees, their order and number, and the first least; then what the code keeps while it runs.
pub mod Written
pub mod Settling
pub mod Reached
pub mod Descent
pub mod TieTable
