-- What no public clause cites: the laws of keys.
pub mod KeyLaws
