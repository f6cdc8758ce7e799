pub mod Moves
pub mod Zones
pub mod Steps
pub mod Doing
