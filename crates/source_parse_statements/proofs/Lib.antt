pub mod Whole
mod AmongNames
mod Levels
mod Rounds
