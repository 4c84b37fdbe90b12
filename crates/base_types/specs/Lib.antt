pub mod Path
pub mod formers
pub mod Held
pub mod Halves
