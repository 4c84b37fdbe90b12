pub mod Beginnings
pub mod Owns
pub mod Keeps
pub mod Passes
pub mod Moves
