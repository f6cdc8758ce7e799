pub mod NameTexts
pub mod NameReading
pub mod NameTextLaws
pub mod PlainNames
pub mod AsciiText
pub mod AsciiFaults
pub mod Inside
