pub mod Ranges
pub mod Once
pub mod Servers
pub mod Octets
pub mod Saying
