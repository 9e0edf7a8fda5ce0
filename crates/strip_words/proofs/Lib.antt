pub mod Refusal
pub mod Columns
pub mod Sizes
