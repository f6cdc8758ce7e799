pub mod RecordLines
pub mod RecordEntries
pub mod DataEntries
pub mod RecordTextLaws
pub mod Lines
pub mod LineLaws
pub mod Inside
