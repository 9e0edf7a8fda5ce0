pub mod Step
pub mod Level
