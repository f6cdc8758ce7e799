pub mod Sheets
pub mod RecordRests
pub mod PlainFields
