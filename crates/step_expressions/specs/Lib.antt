pub mod OperatorForms
pub mod Forms
