pub mod Numbers
pub mod Owners
