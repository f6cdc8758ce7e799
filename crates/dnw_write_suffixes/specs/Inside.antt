-- What no public clause cites: how candidates are kept and found.
pub mod Links
pub mod TagTable
pub mod Store
