pub mod Attempts
pub mod Filled
