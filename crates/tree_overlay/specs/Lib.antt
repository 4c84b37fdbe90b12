pub mod Fates
pub mod Gathered
pub mod Kinds
pub mod Names
pub mod Seen
pub mod Told
pub mod Rounds
