pub mod Splitting
pub mod Walking
mod Spelling
mod Folders
mod Naming
