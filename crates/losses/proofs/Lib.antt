mod Counts
mod Sure
