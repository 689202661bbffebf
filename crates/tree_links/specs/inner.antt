pub mod Compact
pub mod Pairs
pub mod Slots
pub mod Steps
