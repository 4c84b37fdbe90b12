mod Naming
mod Opening
mod Made
pub mod FolderOpening
pub mod Lines
