pub mod Schedule
pub mod inner
