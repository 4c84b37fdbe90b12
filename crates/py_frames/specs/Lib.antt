pub mod Unwind
pub mod Does
pub mod Few
pub mod Listing
pub mod Acts
