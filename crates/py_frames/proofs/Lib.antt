pub mod Passing
pub mod Operands
pub mod Lifts
pub mod Places
pub mod Awake
pub mod Options
