pub mod Charging
pub mod Computing
pub mod Exchanging
pub mod Knowing
pub mod Listing
pub mod Places
pub mod Slots
