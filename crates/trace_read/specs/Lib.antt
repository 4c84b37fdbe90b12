pub mod Reading
pub mod Fitting
pub mod Text
pub mod Refusing
pub mod FieldsFit
