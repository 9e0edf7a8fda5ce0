mod Marking
mod Losing
mod Replies
mod Promises
