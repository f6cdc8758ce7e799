pub mod AddressTexts
pub mod LowerNames
pub mod Usages
pub mod Zones
pub mod Keys
pub mod Inside
