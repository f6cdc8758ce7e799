-- What no public clause cites: what the loops over fields and records keep true as they go.
pub mod Listing
pub mod Going
pub mod Heads
pub mod Putting
pub mod Selecting
pub mod Measuring
