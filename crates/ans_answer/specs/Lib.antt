pub mod Outcomes
pub mod Targets
pub mod Answers
pub mod Additionals
pub mod Seen
pub mod Inside
