pub mod Lists
pub mod Handles
