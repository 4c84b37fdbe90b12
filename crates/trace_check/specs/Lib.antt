pub mod Replays
pub mod Judge
pub mod Threads
