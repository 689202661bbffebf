pub mod Watched
pub mod inner
