pub mod Numbers
pub mod Spelling
pub mod Candidates
pub mod Read
