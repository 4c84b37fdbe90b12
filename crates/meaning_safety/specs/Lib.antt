pub mod Known
pub mod Law
pub mod Laws
