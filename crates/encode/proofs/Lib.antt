pub mod Refusal
pub mod Evaluated
