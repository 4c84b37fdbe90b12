pub mod Begun
pub mod Opening
pub mod Coursing
pub mod Running
pub mod Several
pub mod Answering
