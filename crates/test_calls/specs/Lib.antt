pub mod TestItems
