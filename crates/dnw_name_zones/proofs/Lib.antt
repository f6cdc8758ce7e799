pub mod Lowered
pub mod Appending
