pub mod Promises
pub mod Bounds
pub mod Reporting
