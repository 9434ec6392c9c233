pub mod Requests
pub mod Messages
pub mod Held
pub mod Feed
pub mod Replies
pub mod Answers
pub mod Receiving
