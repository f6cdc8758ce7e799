-- What no public clause cites: wire forms with the lengths of their last labels.
pub mod LastLengths
