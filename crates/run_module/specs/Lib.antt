pub mod Programs
pub mod Means
pub mod UnderWay
pub mod Rouse
pub mod Rousing
