pub mod Columns
pub mod Step
