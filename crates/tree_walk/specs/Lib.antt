pub mod Scan
pub mod inner
