pub mod Naming
pub mod Things
pub mod Piles
pub mod Steps
pub mod Once
pub mod Finding
