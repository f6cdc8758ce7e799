pub mod TokenParts
pub mod TokenSizes
pub mod TokenTexts
pub mod ZoneForms
pub mod StatesKept
mod RecordPuts
mod StateNames
mod StateRooms
mod StepNames
mod StepRows
mod ZoneRuns
