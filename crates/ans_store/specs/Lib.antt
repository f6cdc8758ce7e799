pub mod Zones
pub mod Stored
pub mod Loading
