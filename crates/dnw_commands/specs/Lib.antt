pub mod Asking
pub mod Inside
pub mod Plain
pub mod Refusals
pub mod Shown
pub mod Sums
