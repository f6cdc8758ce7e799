-- What no public clause cites: what the parts of a call return.
pub mod TypeWords
pub mod ParamSteps
pub mod Steps
pub mod Reads
pub mod StringWords
pub mod NameWords
pub mod Wires
pub mod WordParts
pub mod PrefixWords
pub mod BitWords
pub mod OwnTexts
