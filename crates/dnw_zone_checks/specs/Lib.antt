pub mod Findings
pub mod HostNames
pub mod CheckedData
pub mod Checks
pub mod Inside
