pub mod Exits
pub mod Starts
pub mod WireForms
