pub mod Depth
pub mod Lines
pub mod Asking
pub mod Around
pub mod BodyDepth
pub mod Raised
pub mod Sources
