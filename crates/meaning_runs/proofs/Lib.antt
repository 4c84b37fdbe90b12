pub mod Spends
pub mod Law
pub mod Giving
pub mod Once
pub mod Stand
