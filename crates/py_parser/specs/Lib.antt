pub mod Places
pub mod Kinds
pub mod Parses
pub mod Parsed
pub mod Words
