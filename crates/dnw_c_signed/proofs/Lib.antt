mod Following
mod Whole
pub mod Copied
