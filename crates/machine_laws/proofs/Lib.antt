pub mod Same
pub mod Lists
pub mod Holds
pub mod Counts
pub mod Facts
pub mod Changes
pub mod Stages
pub mod Again
pub mod Moves
pub mod Owning
pub mod Leave
pub mod Kept
pub mod Reloading
pub mod Steps
pub mod First
pub mod Replies
pub mod Chain
pub mod Going
pub mod OneLoad
pub mod Fitting
pub mod Deadlocks
pub mod Always
mod Tables
mod Rising
mod Falling
