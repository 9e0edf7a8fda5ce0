pub mod Family
pub mod Promise
