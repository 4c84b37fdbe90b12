pub mod Histories
pub mod Outgo
pub mod Sight
