pub mod Scans
pub mod Floors
pub mod Descents
pub mod Counts
pub mod inner
