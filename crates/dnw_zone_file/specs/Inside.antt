pub mod Adding
pub mod ShortTexts
pub mod PlaceLines
pub mod OwnOwners
pub mod Making
