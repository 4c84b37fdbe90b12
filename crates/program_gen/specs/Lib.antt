pub mod Summary
pub mod Worst
pub mod Wanting
pub mod MadeRuns
pub mod Generator
pub mod Scripts
