pub mod SmallerForms
pub mod SmallerMakes
pub mod Stepping
pub mod Stores
pub mod Upgrades
pub mod Writes
