pub mod Columns
pub mod Reduced
