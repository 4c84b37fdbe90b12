pub mod Mentions
pub mod Laws
pub mod PrinterLaws
