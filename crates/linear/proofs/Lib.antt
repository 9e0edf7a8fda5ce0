pub mod Rows
pub mod Elements
pub mod Elimination
pub mod Substitution
pub mod Newcomer
