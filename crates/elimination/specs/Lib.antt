pub mod Task
pub mod Step
