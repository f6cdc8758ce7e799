pub mod Counted
pub mod Meanings
pub mod Seen
pub mod Laws
