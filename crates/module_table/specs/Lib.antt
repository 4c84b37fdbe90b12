pub mod Vars
pub mod Lists
pub mod Start
pub mod Tables
pub mod Path
pub mod Names
