pub mod Parts
pub mod Headers
pub mod MessageTexts
pub mod JsonStrings
pub mod JsonTexts
