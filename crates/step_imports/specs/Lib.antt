pub mod Waiting
pub mod Parts
