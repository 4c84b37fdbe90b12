pub mod Modules
pub mod Fitting
pub mod Loads
