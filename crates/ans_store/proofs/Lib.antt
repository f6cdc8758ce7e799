pub mod Octets
pub mod Names
pub mod Search
pub mod Reading
