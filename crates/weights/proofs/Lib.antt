pub mod Sixteen
pub mod Weighing
pub mod Refusals
pub mod Promises
