pub mod Sheet
pub mod Calls
pub mod Promise
pub mod Step
