pub mod Slots
pub mod Promises
