pub mod Lookups
pub mod Updates
pub mod Ends
pub mod Losses
