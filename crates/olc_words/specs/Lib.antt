pub mod Epoch
pub mod Lives
pub mod Waiting
