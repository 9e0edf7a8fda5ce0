pub mod Grade
pub mod Step
