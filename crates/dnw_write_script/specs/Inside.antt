-- What no public clause cites: how far the writes of a record go, and the placeholders that a run keeps.
pub mod Going
pub mod Running
