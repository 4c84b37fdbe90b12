mod Pieces
mod Commas
