pub mod Count
pub mod Edits
pub mod Files
pub mod MemFiles
pub mod Reading
pub mod Writing
