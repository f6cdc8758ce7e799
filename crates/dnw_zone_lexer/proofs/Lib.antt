pub mod Cuts
pub mod Steps
pub mod Sums
pub mod Settled
