pub mod Counts
pub mod Returned
