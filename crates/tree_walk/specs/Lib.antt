pub mod Below
pub mod Names
pub mod Due
pub mod Packing
pub mod Reading
