pub mod Joined
pub mod AsciiSizes
pub mod TextReading
pub mod ByteTexts
pub mod LabelTexts
pub mod ReadBack
pub mod SimpleLabels
pub mod PlainText
pub mod Elements
pub mod Units
pub mod Wrong
pub mod Joining
pub mod TextSizes
pub mod NamesBack
pub mod PlainRuns
pub mod PlainNames
mod PlainLeft
pub mod PlainForms
