pub mod Above
pub mod Named
pub mod Roused
