pub mod Mother
pub mod Step
