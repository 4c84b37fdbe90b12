pub mod Forms
pub mod Others
pub mod Parts
mod Chain
mod Within
