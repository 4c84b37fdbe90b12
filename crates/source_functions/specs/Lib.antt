pub mod Functions
pub mod Binding
pub mod Laws
