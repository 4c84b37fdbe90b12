pub mod Outcomes
pub mod Arithmetic
pub mod Comparison
pub mod Items
