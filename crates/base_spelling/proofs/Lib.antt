pub mod Spelled
mod Pieces
mod Escapes
mod Sources
mod Decoding
pub mod Takes
