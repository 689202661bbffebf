pub mod Asks
pub mod Cells
pub mod Fields
pub mod Held
pub mod Steps
pub mod Walks
