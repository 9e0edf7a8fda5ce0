pub mod Quick
pub mod Deciding
pub mod ShortCases
pub mod ToldCases
pub mod Cases
