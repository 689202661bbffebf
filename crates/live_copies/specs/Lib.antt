pub mod Copies
pub mod inner
