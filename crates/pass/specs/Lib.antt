pub mod Pass
pub mod Step
pub mod Promise
