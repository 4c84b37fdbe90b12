pub mod Rounds
pub mod Spare
pub mod Openings
pub mod Tally
pub mod Told
pub mod Moving
pub mod Events
pub mod Settling
