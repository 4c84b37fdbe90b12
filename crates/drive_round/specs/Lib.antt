pub mod Ran
pub mod Workers
pub mod Played
pub mod Solo
