pub mod Expressions
pub mod Laws
pub mod Lines
