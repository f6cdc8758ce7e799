pub mod AlgorithmNames
pub mod Padding
pub mod Same
