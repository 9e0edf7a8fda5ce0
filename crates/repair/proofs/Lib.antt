pub mod Refusals
pub mod Strips
pub mod Promises
