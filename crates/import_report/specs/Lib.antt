pub mod Sources
pub mod Reports
pub mod Due
pub mod Left
pub mod Meanings
pub mod Seeking
pub mod Lines
