pub mod Finding
pub mod PartNames
pub mod Reading
pub mod Spelling
pub mod Steps
