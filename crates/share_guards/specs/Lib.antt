pub mod Made
pub mod Many
pub mod Operations
pub mod inner
