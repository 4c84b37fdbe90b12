pub mod Taking
pub mod EventWords
pub mod ReplyWords
pub mod Events
pub mod Replies
pub mod Entries
