pub mod Columns
pub mod Exchanges
pub mod Turning
