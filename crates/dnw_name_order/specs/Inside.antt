pub mod Lengths
pub mod KeyBuffers
pub mod Keyed
pub mod Numbers
