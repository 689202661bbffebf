pub mod AsBox
pub mod AsWord
pub mod Lends
pub mod Moves
