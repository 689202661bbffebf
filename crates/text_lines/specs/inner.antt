pub mod Cut
pub mod Kept
pub mod Reading
pub mod Words
