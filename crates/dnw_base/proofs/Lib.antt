pub mod Digits
pub mod PrintedTypes
pub mod PrintedClasses
pub mod Wires
pub mod DecoderReads
pub mod TypeKeys
