pub mod Safety
pub mod Embedding
pub mod Naming
