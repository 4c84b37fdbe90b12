pub mod Cuts
pub mod Closed
pub mod Names
pub mod Quoting
pub mod Items
pub mod Whole
pub mod Signs
pub mod Paths
