-- What no public clause cites: what the parts of a call return.
pub mod Labels
pub mod Plain
pub mod TextReader
pub mod TextProgress
