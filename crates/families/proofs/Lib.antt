pub mod Search
pub mod Sizes
pub mod TwoWay
pub mod Ways
pub mod Double
pub mod Promises
