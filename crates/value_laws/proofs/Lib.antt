pub mod Chains
pub mod Classes
pub mod Comparing
pub mod Dividing
pub mod KindOrder
pub mod Ranks
pub mod TextItself
