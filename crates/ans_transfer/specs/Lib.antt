pub mod Transfers
pub mod Places
pub mod Laws
