pub mod Returned
pub mod Inserted
pub mod Iterated
