pub mod Attempts
pub mod Events
pub mod Founds
pub mod Last
pub mod Ranges
