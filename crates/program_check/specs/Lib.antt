pub mod Judge
pub mod Opened
pub mod Lines
pub mod Checking
