-- What no public clause of a higher crate cites: how wire forms are kept.
pub mod Fours
pub mod Lengths
pub mod WireBytes
