pub mod Ends
pub mod Refused
pub mod LastToken
pub mod OneAnswer
pub mod Answers
pub mod Computed
