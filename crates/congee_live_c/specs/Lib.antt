pub mod Answer
pub mod Holding
pub mod Owners
pub mod Pairs
pub mod inner
