pub mod Commas
pub mod Drafts
pub mod Escapes
