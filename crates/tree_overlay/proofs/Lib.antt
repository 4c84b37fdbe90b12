pub mod FateLemmas
pub mod Merging
pub mod NameLemmas
pub mod Overlaid
pub mod TreeLemmas
pub mod Within
pub mod Rounds
