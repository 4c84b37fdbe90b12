mod Places
mod Cuts
mod Entries
mod Orders
mod Fronts
mod Written
mod Indexed
pub mod Listed
pub mod Filled
pub mod Lookups
pub mod Expanding
pub mod Inner
pub mod TreeFronts
pub mod Leading
pub mod Trees
pub mod Told
pub mod Slices
pub mod Ascending
pub mod Answered
pub mod Above
