mod PlaceLines
pub mod Decided
pub mod OneMore
pub mod Kept
pub mod KeptFields
pub mod WrittenLines
pub mod OneHead
pub mod AnyLines
pub mod LinesRead
pub mod ShortNames
pub mod ShortLinesRead
pub mod WrittenTexts
pub mod OwnOwners
pub mod Templates
pub mod Generated
