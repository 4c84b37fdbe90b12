pub mod Bound
pub mod Reads
