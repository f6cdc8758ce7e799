pub mod Comparing
pub mod Lengths
pub mod SortKeys
pub mod Numbers
pub mod OctetNumbers
