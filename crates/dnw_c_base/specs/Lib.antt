pub mod Failures
pub mod Offsets
pub mod Results
pub mod Signs
pub mod WireForms
