pub mod Adding
pub mod Lookups
pub mod Existing
pub mod Upward
pub mod FirstOfSets
