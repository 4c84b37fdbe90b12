pub mod Words
pub mod Plans
pub mod Usage
pub mod Setting
pub mod OptionWords
pub mod Taken
pub mod Parsers
pub mod Finds
