pub mod Counting
pub mod Going
pub mod Knowing
pub mod Popping
pub mod Removing
pub mod Retaining
pub mod Writing
