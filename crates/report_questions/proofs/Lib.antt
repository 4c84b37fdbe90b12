pub mod Faulty
pub mod Parts
pub mod Pairs
