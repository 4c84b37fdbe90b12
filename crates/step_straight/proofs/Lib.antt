pub mod Paying
pub mod AtomCosts
pub mod OperatorCosts
