pub mod Passing
pub mod Checking
pub mod Steps
pub mod Bounds
pub mod Finding
pub mod Readings
pub mod Coded
pub mod Reaching
