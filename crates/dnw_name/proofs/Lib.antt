pub mod Qualified
pub mod Borrowed
pub mod Joins
