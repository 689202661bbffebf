pub mod Seats
pub mod View
pub mod inner
