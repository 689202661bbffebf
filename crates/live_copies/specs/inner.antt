pub mod Told
pub mod Noted
pub mod Whole
pub mod Locks
pub mod Children
