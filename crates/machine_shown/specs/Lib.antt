pub mod Holdings
pub mod Shown
pub mod Knowing
pub mod Own
