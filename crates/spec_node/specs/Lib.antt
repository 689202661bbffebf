pub mod Key
pub mod Meeting
pub mod TableNode
