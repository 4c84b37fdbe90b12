pub mod PathText
