pub mod Rounds
pub mod Runs
pub mod Opened
pub mod Answers
pub mod Course
