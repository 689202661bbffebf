pub mod Owned
pub mod Untouched
