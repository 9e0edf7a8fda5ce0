pub mod Strips
pub mod Promise
