pub mod Changing
pub mod Stages
pub mod Owners
pub mod Reads
pub mod Upward
