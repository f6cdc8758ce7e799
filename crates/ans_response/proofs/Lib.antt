pub mod Zones
pub mod First
pub mod Spliced
pub mod Readings
pub mod Chains
