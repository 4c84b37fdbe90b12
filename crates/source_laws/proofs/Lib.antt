pub mod Mentioned
pub mod Texts
pub mod Trees
pub mod Sources
