pub mod Sum
pub mod Planning
pub mod Products
pub mod Tiles
pub mod Rebuilding
