pub mod Runs
pub mod Costs
pub mod Lists
pub mod Follows
