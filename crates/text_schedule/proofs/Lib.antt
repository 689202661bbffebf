pub mod AtEnd
pub mod ByParts
pub mod Decided
pub mod Ending
pub mod EntryLemmas
pub mod Saying
