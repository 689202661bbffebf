pub mod Spare
pub mod inner
