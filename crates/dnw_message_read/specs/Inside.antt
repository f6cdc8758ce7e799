-- What no public clause cites: how the walk over a message goes, and how its sections are kept.
pub mod Kept
pub mod Options
pub mod Passing
