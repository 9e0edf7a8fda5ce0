pub mod Weights
pub mod Planning
pub mod Tabling
