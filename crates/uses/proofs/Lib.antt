pub mod Replies
pub mod Written
pub mod ScriptRecords
pub mod ScriptPairs
pub mod ReverseNames
pub mod Listed
pub mod ReadMessages
pub mod TextsBack
pub mod TableNames
pub mod TableOrder
pub mod TablePush
pub mod LabelsLeft
mod CountedRecords
