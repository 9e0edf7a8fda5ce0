pub mod Tails
pub mod Rows
