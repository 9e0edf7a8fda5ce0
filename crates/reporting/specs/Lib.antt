pub mod Report
pub mod Promise
pub mod Step
