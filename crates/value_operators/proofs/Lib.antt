pub mod Copies
pub mod Ends
pub mod Lists
pub mod Substrings
