pub mod Stores
pub mod Best
