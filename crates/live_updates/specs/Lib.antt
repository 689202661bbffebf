pub mod Entries
pub mod Takings
pub mod Refusals
pub mod Closures
pub mod ClosureEntries
pub mod inner
pub mod Unlinks
pub mod Two
