pub mod Ends
pub mod Listed
pub mod Made
pub mod inner
