pub mod Padding
pub mod Verdicts
