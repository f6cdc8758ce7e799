-- What no public clause cites: the search for a suffix, and what is reported of a name that is not written.
pub mod Sharing
pub mod Unwritten
