pub mod EditLemmas
pub mod NamesBelow
pub mod Listings
pub mod MemFilesLemmas
