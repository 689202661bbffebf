pub mod Entries
pub mod Standing
