-- What no public clause cites: what the check and the walk over a list keep true as they go; the steps of reading and writing
-- bitmaps, and the laws of sets.
pub mod Heads
pub mod Checking
pub mod Bitmaps
pub mod SetLaws
