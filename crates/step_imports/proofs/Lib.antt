mod Depth
mod Turns
pub mod Parts
pub mod Levels
pub mod Lists
