pub mod Kept
pub mod Listing
pub mod Settling
pub mod Trying
