pub mod Records
mod Promises
