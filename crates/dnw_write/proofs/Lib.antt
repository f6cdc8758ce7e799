pub mod Places
pub mod Items
pub mod Bounds
pub mod Suffixes
pub mod Emission
pub mod NameBack
pub mod Preceding
