-- What no public clause cites: what the copy of data keeps true as it goes.
pub mod Copying
