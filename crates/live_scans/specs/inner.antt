pub mod Directions
pub mod Moments
pub mod Steps
pub mod Stops
pub mod Nexts
pub mod Afters
pub mod Fills
