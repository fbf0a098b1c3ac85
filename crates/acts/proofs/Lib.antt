pub mod Searches
pub mod Replies
