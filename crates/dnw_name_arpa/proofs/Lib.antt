pub mod Decimals
pub mod Segments
pub mod Values
pub mod ValueLabels
pub mod Prefixes
pub mod Back
