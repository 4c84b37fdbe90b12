pub mod Bones
pub mod Sound
pub mod Answered
pub mod Begun
pub mod Counts
