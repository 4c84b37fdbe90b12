pub mod Growth
mod Given
pub mod Pieces
mod Values
pub mod Searches
mod Names
mod Paths
mod Entries
mod Methods
mod Expressions
mod Calls
mod ImportStatements
mod Blocks
mod Tries
mod Statements
mod Within
mod Lazy
pub mod Imports
mod Reload
pub mod Meaning
pub mod Parts
pub mod Operators
