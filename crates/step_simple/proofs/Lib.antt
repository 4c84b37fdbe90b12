pub mod Counted
pub mod OnLists
