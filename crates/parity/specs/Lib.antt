pub mod Parity
pub mod Step
pub mod Promise
