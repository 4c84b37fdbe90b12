pub mod Spelling
pub mod Lines
pub mod Reading
pub mod Grammar
pub mod Refusing
