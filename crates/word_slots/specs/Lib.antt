pub mod Tickets
pub mod Slots
