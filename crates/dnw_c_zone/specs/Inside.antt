-- What no public clause cites: what is found in a part of a text, and what is in the middle of a record.
pub mod TokenParts
pub mod StateResults
pub mod RecordHeads
pub mod StateNames
pub mod RowSteps
