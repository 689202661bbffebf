pub mod Closures
pub mod Moments
pub mod Replies
pub mod inner
