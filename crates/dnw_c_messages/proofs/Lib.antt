mod Taken
mod RecordEnds
mod RecordReads
pub mod TypeCodes
mod Forms
mod Sheets
mod Steps
mod FieldSteps
mod ItemSteps
mod Tables
