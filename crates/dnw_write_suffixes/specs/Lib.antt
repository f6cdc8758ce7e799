pub mod Candidates
pub mod Inside
