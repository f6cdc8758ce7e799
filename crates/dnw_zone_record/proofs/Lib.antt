pub mod LinesBack
pub mod OneLine
mod RecordWords
pub mod EntryLines
pub mod Runs
pub mod Windows
pub mod DataLengths
mod UsualWords
mod Stops
