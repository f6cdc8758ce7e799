-- What no public clause cites: what the parts of a lexer find.
pub mod Finds
