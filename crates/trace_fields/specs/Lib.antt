pub mod Splitting
pub mod Reading
pub mod Fields
pub mod Parts
pub mod Words
pub mod Values
