pub mod Named
pub mod Roused
pub mod Turns
