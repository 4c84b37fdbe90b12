pub mod Modules
pub mod Questions
pub mod Faults
pub mod Sources
pub mod Statements
pub mod Lines
pub mod SourceImports
