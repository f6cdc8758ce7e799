pub mod Sections
pub mod Replies
pub mod Lists
pub mod Requests
pub mod Heads
pub mod Inside
