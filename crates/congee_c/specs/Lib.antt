pub mod Answer
pub mod Frozen
pub mod Limit
pub mod Written
pub mod inner
