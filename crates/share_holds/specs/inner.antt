pub mod Events
pub mod Founds
