pub mod Mates
pub mod Promise
