pub mod Empty
pub mod TypeSteps
pub mod BitmapSteps
pub mod BitmapsBack
pub mod PrefixSteps
pub mod PrefixListsBack
pub mod LocatorsBack
pub mod ListedBack
pub mod ParamWalks
pub mod Whole
pub mod CodesWithin
pub mod OneBitmap
pub mod Plain
pub mod GenericText
pub mod Given
pub mod Strings
pub mod NumberKinds
pub mod Rests
pub mod NameSteps
pub mod NameFronts
pub mod GatewayWords
pub mod FieldLists
pub mod Identifiers
pub mod FieldsBack
pub mod NumberFormsBack
pub mod NamesBack
pub mod WordsBack
pub mod LocationWords
pub mod LocationsBack
pub mod GatewaysBack
pub mod NameListsBack
pub mod Items
pub mod TypesBack
pub mod ParamsBack
pub mod FieldValues
pub mod DataBack
pub mod NoFault
pub mod OneText
pub mod Wires
pub mod Lengths
pub mod Pushed
pub mod NamesRead
pub mod WordParts
pub mod FewDigits
pub mod TextKinds
mod PlainTexts
mod UsualWords
mod Marks
pub mod Lanes
mod FirstWindow
mod Spaces
