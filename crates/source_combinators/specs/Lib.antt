pub mod Reading
pub mod Many
pub mod Outcome
pub mod Refusals
pub mod Separated
