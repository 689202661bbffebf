pub mod Moves
pub mod Words
pub mod Hazards
pub mod Slots
pub mod Scans
pub mod Books
