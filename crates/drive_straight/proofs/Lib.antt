mod AtOnce
mod Operands
