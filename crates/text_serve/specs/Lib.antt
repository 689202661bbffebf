pub mod Serve
pub mod inner
