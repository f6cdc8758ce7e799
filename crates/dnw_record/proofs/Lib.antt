pub mod RecordReading
pub mod Copying
pub mod Followed
pub mod FewPointers
pub mod Pieces
pub mod GivenFields
pub mod Alike
