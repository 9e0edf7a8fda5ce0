pub mod Lines
pub mod Promise
pub mod Step
