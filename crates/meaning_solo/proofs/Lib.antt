pub mod Parts
pub mod Turns
pub mod One
pub mod Some
pub mod On
pub mod Alone
