pub mod Arguments
pub mod Hashed
