mod Grades
pub mod Refusals
pub mod Replies
