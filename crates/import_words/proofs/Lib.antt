mod Narrowed
mod Slashes
mod Cuts
mod Digits
pub mod Rows
pub mod Steps
pub mod Keys
pub mod Names
pub mod Options
pub mod Given
pub mod Agree
pub mod Joined
