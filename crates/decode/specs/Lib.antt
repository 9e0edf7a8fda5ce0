pub mod Decode
pub mod Promise
pub mod Step
