pub mod Fresh
pub mod Recompute
