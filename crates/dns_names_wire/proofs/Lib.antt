pub mod AcceptedTexts
pub mod DottedTexts
pub mod DifferentTexts
pub mod LabelBytes
pub mod Found
pub mod TypesBack
pub mod ClassesBack
