pub mod System
pub mod Step
