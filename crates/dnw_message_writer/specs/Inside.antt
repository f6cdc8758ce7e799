-- What no public clause cites.
pub mod Asked
pub mod CopiedSets
pub mod Fitting
pub mod Going
pub mod Splitting
pub mod Standing
pub mod Taken
pub mod Turns
