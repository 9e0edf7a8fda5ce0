pub mod Bits
pub mod Lanes
pub mod Shown
pub mod Levels
pub mod Nibbles
pub mod Rows
pub mod Planning
pub mod Tables
