pub mod OperatorLayers
pub mod OnLists
pub mod Layers
pub mod Places
