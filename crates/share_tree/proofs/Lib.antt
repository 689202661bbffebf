pub mod Counts
pub mod Current
pub mod Ends
pub mod First
pub mod Inserted
pub mod Mapped
pub mod Onward
pub mod Turning
