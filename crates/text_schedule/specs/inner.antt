pub mod AtEnd
pub mod EntryReading
pub mod Parts
pub mod Reading
