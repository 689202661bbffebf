pub mod Calls
pub mod Holds
pub mod Rooms
pub mod FreeNodes
pub mod Two
pub mod Three
