pub mod Right
pub mod Many
pub mod Agrees
pub mod Steps
pub mod Forms
pub mod Theorem
pub mod Separated
pub mod Listed
