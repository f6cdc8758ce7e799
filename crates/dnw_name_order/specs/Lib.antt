pub mod Order
pub mod OrderLaws
pub mod Inside
pub mod SortKeys
pub mod SortKeyLaws
pub mod Sorted
