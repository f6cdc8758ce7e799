pub mod Down
pub mod Asked
pub mod First
pub mod Targets
pub mod Steps
