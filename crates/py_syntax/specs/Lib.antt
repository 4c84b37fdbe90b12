pub mod Expressions
pub mod Contexts
pub mod Simple
pub mod Statements
pub mod Grammar
