-- What no public clause cites: what the parts of a call find.
pub mod Takes
pub mod Digits
pub mod Steps
