pub mod CandidateLists
pub mod Held
pub mod Rings
pub mod Mixing
pub mod Matching
