pub mod Costs
pub mod Comes
