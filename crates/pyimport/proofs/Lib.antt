pub mod Numbered
pub mod Answering
mod Counted
