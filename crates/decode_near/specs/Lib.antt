pub mod Near
pub mod Promise
