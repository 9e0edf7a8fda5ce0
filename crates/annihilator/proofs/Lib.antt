pub mod Places
pub mod Gaps
pub mod Answer
