pub mod Reload
pub mod Reloading
