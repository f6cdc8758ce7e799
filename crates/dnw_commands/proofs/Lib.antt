pub mod Lines
mod Numbered
pub mod Plain
