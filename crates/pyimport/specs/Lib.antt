pub mod Tasks
pub mod Answers
pub mod Status
pub mod Bundled
