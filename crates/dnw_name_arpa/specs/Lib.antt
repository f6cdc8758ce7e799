pub mod Nets
pub mod NetTexts
pub mod Arpa
pub mod ArpaNets
pub mod ArpaLaws
pub mod Inside
